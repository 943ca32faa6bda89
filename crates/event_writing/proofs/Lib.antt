-- What is shown of a written event beside the functions' contracts.
pub mod WriteOne
pub mod Trips
pub mod Logs
pub mod Views
