-- Lemmas on the lockouts that a command line asks for, and on what is answered behind them.
pub mod Locking
pub mod Answering
