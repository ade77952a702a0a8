pub mod Fifo
pub mod Excess
pub mod Tally
