-- Lemmas on pairs.
pub mod Beside
