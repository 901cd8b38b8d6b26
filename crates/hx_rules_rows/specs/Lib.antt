pub mod Story
pub mod Conflicts
pub mod Saving
pub mod Discards
pub mod Undos
pub mod Guards
pub mod Runs
pub mod Refusals
