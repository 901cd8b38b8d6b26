mod Adopting
mod Closes
mod RestSteps
mod SyncSteps
