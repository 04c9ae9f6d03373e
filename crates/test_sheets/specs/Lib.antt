pub mod Questions
pub mod RoundTrip
pub mod Mlt1Sheet
pub mod Pieces
pub mod Parts
