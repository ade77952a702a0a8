pub mod Prefixes
pub mod Counts
pub mod KeptUp
pub mod OneKind
pub mod Determined
