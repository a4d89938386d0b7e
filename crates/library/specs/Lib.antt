pub mod Library
pub mod RoundTrip
pub mod Rows
