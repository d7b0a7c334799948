-- Lemmas on decimal texts, on scans of runs, on how runs are sorted, and on what is written.
pub mod Decimals
pub mod Scans
pub mod Sorts
pub mod Writes
