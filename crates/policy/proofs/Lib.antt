-- Lemmas on bits and on bare boards.
pub mod Bits
pub mod Bare
