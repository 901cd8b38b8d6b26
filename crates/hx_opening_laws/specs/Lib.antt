pub mod Names
pub mod FirstPairs
pub mod Findings
pub mod Held
pub mod Laws
pub mod Opening
