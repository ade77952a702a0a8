pub mod Refused
pub mod Runs
pub mod OneCell
pub mod InCall
pub mod StepChanges
pub mod Sums
pub mod HandedOut
