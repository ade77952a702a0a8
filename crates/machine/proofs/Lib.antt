pub mod Hops
pub mod Runs
pub mod Decided
pub mod Pairs
pub mod Determined
