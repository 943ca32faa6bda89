-- What is shown of marks and counts beside the functions' contracts.
pub mod Marks
