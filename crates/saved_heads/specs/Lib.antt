pub mod Row
pub mod Bytes
pub mod Saved
pub mod Rules
pub mod Rows
pub mod RoundTrip
