pub mod Elements
pub mod Outcomes
pub mod Outlooks
pub mod Telling
