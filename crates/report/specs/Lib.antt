-- The texts that programs print.
pub mod Lines
pub mod Transcripts
pub mod Troubles
pub mod Sentences
pub mod Comparisons
pub mod Readbacks
