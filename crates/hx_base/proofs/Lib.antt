pub mod DecimalSteps
pub mod EscapeLaws
pub mod EscapeSteps
