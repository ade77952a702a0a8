pub mod Decimals
pub mod Lengths
pub mod Lines
pub mod Items
pub mod Determined
