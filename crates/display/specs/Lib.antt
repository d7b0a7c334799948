-- Ranges, marks and the two kinds of display, with the lemmas that their laws need.
pub mod Marks
pub mod Ranges
pub mod Sameness
pub mod Codes
pub mod Readings
pub mod MarksLemmas
pub mod CodesLemmas
pub mod ReadingsLemmas
