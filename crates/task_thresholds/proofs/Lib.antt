-- What is shown of the thresholds beside the functions' contracts.
pub mod Paper
pub mod Worked
