pub mod Lexemes
pub mod Runs
pub mod Rules
pub mod Going
pub mod Parts
pub mod Nesting
pub mod Places
pub mod Lists
