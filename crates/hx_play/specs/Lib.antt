pub mod Over
pub mod Running
pub mod Planting
pub mod Played
pub mod Runs
