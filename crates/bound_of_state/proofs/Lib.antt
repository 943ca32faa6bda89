-- What is shown beside the functions' contracts.
pub mod Accepted
