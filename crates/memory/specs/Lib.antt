pub mod Memory
pub mod Made
