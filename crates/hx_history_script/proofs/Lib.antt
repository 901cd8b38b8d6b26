pub mod FieldSteps
pub mod Texts
