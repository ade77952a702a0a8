pub mod Range
pub mod Determined
