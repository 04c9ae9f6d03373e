pub mod Lengths
pub mod Lefts
pub mod Wents
pub mod Halves
pub mod Separating
