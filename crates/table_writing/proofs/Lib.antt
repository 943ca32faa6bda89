-- What is shown of a written table beside the functions' contracts.
pub mod Records
pub mod Written
pub mod Trips
