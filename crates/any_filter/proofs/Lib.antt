pub mod Laws
pub mod Binary32
pub mod Words
