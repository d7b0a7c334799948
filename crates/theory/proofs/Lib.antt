-- The lemmas: the theorems on runs.
pub mod Unlocked
pub mod Apart
