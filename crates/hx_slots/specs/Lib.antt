pub mod Files
pub mod Frames
pub mod Gate
pub mod Laws
pub mod Raws
