pub mod Rest
pub mod Set
pub mod Editions
pub mod Binary32
