pub mod Over
pub mod Room
pub mod Table
