pub mod Sizing
pub mod Sketching
pub mod Ruling
pub mod Judgements
pub mod Tails
