pub mod OpenLives
pub mod Asking
pub mod Given
pub mod Answered
pub mod Files
pub mod Blocks
pub mod Stages
pub mod Users
