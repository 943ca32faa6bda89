-- What is shown of a record beside the functions' contracts.
pub mod Steps
