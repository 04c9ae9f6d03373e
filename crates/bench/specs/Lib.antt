pub mod Books
pub mod Questions
pub mod Calls
pub mod Rules
pub mod Judging
