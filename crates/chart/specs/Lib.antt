pub mod Bytes
pub mod Chart
