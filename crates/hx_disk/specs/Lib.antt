pub mod Disk
pub mod File
pub mod Images
pub mod Overlay
pub mod Runs
