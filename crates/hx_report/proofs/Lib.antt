pub mod Trails
pub mod Texts
pub mod Saving
pub mod Outlining
pub mod Tallying
pub mod Walking
pub mod Sums
pub mod Copying
