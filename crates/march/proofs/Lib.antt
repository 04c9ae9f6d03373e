pub mod Lists
pub mod Going
pub mod Masking
pub mod Lengths
pub mod Sweeps
pub mod Table
