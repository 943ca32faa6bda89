-- What is shown of a log beside the functions' contracts.
pub mod Records
pub mod Logs
pub mod Rests
pub mod Endings
pub mod Going
pub mod Computing
pub mod Views
