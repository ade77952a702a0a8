pub mod State
pub mod HandOut
pub mod Pairing
pub mod Steps
pub mod Entries
