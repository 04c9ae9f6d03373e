pub mod Ones
pub mod OneMore
pub mod Leaving
pub mod Exact
pub mod Later
