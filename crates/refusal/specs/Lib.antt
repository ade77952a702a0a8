pub mod Numbers
pub mod Verdicts
