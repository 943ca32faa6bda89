-- What is shown of table bytes beside the functions' contracts.
pub mod Records
pub mod Rows
pub mod Exactly
pub mod Given
pub mod Computing
pub mod Views
