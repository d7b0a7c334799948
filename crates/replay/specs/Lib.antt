-- What this program answers.
pub mod Replays
