pub mod Counts
pub mod Sound
pub mod Rows
pub mod Refused
pub mod Rest
pub mod Follows
pub mod Binary32
pub mod Valid
