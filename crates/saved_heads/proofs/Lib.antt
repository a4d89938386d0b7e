pub mod RowsOf
pub mod Bytes
pub mod Snapshots
pub mod Heads
pub mod RoundTrip
pub mod Rows
