pub mod Mlt1
pub mod Left
pub mod Separation
