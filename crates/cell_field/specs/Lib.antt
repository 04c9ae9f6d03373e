pub mod Row
pub mod Field
pub mod Formed
