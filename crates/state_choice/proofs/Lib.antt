-- What is shown of the choice beside the functions' contracts.
pub mod Least
pub mod Views
