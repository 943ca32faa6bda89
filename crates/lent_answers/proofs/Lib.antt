-- What is shown of a turn beside the functions' contracts.
pub mod Turns
pub mod Views
