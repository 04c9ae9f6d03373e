pub mod Ones
pub mod Growing
pub mod Wholes
