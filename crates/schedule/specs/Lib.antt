pub mod Codes
pub mod Read
pub mod Write
pub mod Schedule
