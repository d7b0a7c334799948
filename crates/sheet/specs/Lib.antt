-- What a sheet says, what its reader and writer answer, and the theorems on both.
pub mod Faults
pub mod Marks
pub mod Plan
pub mod Text
pub mod Reading
pub mod Exact
pub mod Calls
pub mod Kinds
pub mod Due
pub mod Entries
pub mod Passes
pub mod Boards
pub mod Stores
pub mod Written
