pub mod Meaning
pub mod Table
pub mod Transistors
