pub mod Views
pub mod Rules
pub mod Closing
pub mod Newest
