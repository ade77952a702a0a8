pub mod Performs
pub mod Determined
