pub mod Tenths
pub mod Faults
pub mod Campaigns
