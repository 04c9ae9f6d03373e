pub mod Numbers
pub mod CellWords
pub mod Cells
pub mod LineWords
pub mod Lines
