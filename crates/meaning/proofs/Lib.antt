-- Lemmas on what consoles were told, on sources, and on who gives a command.
pub mod Agreement
pub mod Answering
pub mod Comparing
pub mod Gathering
pub mod Ownership
pub mod Passing
pub mod Ranges
