pub mod Kept
pub mod Rows
pub mod Flagged
pub mod Asks
pub mod Rooms
pub mod Decided
pub mod Makes
