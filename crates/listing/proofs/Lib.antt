pub mod Telling
pub mod Blocks
pub mod Whole
pub mod Determined
