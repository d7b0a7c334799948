-- What a table is, what a pair is, and what replay answers.
pub mod Tables
pub mod Pairs
pub mod Replays
