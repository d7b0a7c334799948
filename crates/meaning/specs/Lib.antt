-- What a meaning is asked, and what its parts leave or tell of a sequence.
pub mod Agreeing
pub mod Asked
pub mod Compared
pub mod Likeness
pub mod Published
pub mod Reach
pub mod Sets
