pub mod Grid
pub mod Planes
pub mod Rows
pub mod RoundTrip
