mod Disks
mod LifeSteps
mod Halts
mod Plants
mod Whole
mod Commands
mod RunSteps
mod RunWhole
