pub mod Cases
pub mod Fields
pub mod Rest
pub mod Binary32
pub mod Words
