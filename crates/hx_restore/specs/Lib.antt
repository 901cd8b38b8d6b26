pub mod Values
pub mod Laws
pub mod Choices
pub mod Twins
