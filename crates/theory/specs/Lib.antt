-- Limits, flows and lockouts, boards, controls, and where sequences lead.
pub mod Limits
pub mod Reading
pub mod Flows
pub mod Boards
pub mod Control
pub mod Runs
pub mod Theorems
