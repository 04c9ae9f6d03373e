pub mod Readings
pub mod Going
pub mod Lexing
pub mod Tokens
pub mod Forms
pub mod Choosing
pub mod Remarks
pub mod Listings
