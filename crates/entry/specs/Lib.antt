pub mod Operands
pub mod Range
