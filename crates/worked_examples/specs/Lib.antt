pub mod Examples
pub mod Differences
