pub mod Verdicts
pub mod Sizes
pub mod Sketches
pub mod Judging
pub mod Laws
