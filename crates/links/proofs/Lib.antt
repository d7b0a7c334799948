-- The lemmas, from sequences and chains of links up to the laws of each of the three meanings.
pub mod Sequences
pub mod Chains
pub mod Likeness
pub mod Faithful
pub mod Selecting
pub mod Carrying
pub mod Antitone
pub mod Evenhanded
pub mod Purging
pub mod Sourcing
pub mod Telling
pub mod Turning
pub mod Counting
pub mod Showing
pub mod Pulling
pub mod Transmitting
