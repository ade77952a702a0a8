pub mod Positions
pub mod Pigeons
pub mod Following
pub mod Joining
