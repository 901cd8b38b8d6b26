pub mod Traces
pub mod Tails
pub mod Summaries
pub mod Saves
pub mod Outlines
pub mod Counting
pub mod Copies
