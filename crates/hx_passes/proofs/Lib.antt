pub mod Lists
pub mod Totals
pub mod Steps
pub mod Ends
pub mod Newest
