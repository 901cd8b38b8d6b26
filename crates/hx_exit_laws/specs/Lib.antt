pub mod Ends
pub mod Decisions
pub mod Calm
pub mod Back
