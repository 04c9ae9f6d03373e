pub mod Letters
pub mod Questions
pub mod Operations
