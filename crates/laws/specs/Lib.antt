pub mod Changes
pub mod Counted
pub mod HandingOut
