pub mod Sheets
pub mod Writing
