pub mod Tables
pub mod Rows
pub mod Writings
pub mod RoundTrip
