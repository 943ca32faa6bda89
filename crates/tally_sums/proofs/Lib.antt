-- What is shown of joining beside the functions' contracts.
pub mod Spans
pub mod Cells
pub mod Joining
pub mod Orders
pub mod Lists
