pub mod Cuts
pub mod Names
pub mod ScriptSteps
pub mod MadeSteps
pub mod DraftSteps
pub mod TraceSteps
pub mod ReadBack
pub mod LivesCount
