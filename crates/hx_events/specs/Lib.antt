pub mod Places
pub mod Resources
pub mod Texts
pub mod Fields
pub mod Lines
