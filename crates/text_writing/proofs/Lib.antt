-- What is shown of texts beside the functions' contracts.
pub mod Decimals
pub mod Sheets
pub mod Putting
