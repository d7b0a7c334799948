-- Runs of bytes, the tokens that they are, and marks that are written.
pub mod Runs
pub mod Tokens
pub mod Writing
