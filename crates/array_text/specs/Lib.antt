pub mod Meaning
pub mod Grammar
pub mod Left
pub mod Texts
