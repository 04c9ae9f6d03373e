pub mod Tenths
pub mod Plantings
pub mod Sights
pub mod Counts
pub mod Complete
pub mod Blanks
