-- What is shown of the answers beside the functions' contracts.
pub mod Cells
pub mod Exactly
pub mod Worked
pub mod Computing
pub mod Copied
