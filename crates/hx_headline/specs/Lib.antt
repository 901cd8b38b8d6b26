pub mod Next
pub mod Alone
pub mod Answered
