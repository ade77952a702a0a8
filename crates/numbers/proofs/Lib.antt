pub mod SameNumber
pub mod GroupByGroup
pub mod WrittenGroups
pub mod RoundTrip
pub mod OneEncoding
pub mod Within
pub mod Determined
