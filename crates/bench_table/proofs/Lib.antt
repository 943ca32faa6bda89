-- What is shown of the table beside the functions' contracts.
pub mod Accepted
