pub mod Distinct
pub mod Tests
pub mod Verdicts
pub mod Determined
