-- What a question to the receiver of a sheet is answered.
pub mod Answers
