pub mod Words
pub mod Marks
pub mod Counts
pub mod Lengths
pub mod Columns
pub mod Visits
pub mod Rows
