pub mod Positions
pub mod Chain
