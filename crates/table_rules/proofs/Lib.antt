-- What is shown of the table beside the functions' contracts.
pub mod Exactly
pub mod Faults
pub mod Answers
pub mod Order
pub mod Ruling
