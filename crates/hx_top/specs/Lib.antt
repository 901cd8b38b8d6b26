pub mod Exits
pub mod Histories
pub mod Asking
pub mod Words
pub mod Whole
pub mod Ends
pub mod Runs
pub mod Program
