-- Lemmas on what a table over a read store says, and on which kind is tried.
pub mod Behind
pub mod Choosing
pub mod Said
