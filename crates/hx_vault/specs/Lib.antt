pub mod Sides
pub mod Vaults
pub mod Barriers
pub mod Scans
