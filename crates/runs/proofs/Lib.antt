pub mod Rows
pub mod Steps
pub mod Kept
pub mod Binary32
pub mod Ran
