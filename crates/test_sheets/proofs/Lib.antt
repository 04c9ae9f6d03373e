pub mod Joins
pub mod Bytes
pub mod Written
pub mod OperationTrips
pub mod Elements
pub mod Trips
pub mod PieceRuns
