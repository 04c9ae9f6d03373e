pub mod Ruling
pub mod WholeRun
