-- Sets, refusals, flows and lockouts, and what each call makes of a board.
pub mod Members
pub mod Refusals
pub mod Rows
pub mod Flows
pub mod Lockouts
pub mod Board
pub mod Calls
