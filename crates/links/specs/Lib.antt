-- What a meaning is, its laws, and the three meanings.
pub mod Sequences
pub mod Purge
pub mod Sources
pub mod Transmitted
pub mod Meaning
pub mod Links
pub mod Laws
pub mod Three
pub mod Equality
pub mod Growth
