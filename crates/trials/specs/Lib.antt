pub mod Outcomes
pub mod Trials
