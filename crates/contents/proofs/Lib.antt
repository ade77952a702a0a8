pub mod Chains
pub mod Determined
