pub mod Answered
pub mod Playing
pub mod Files
pub mod Saves
pub mod Steps
pub mod Ends
