-- What is shown of a task's history, in the rules' order.
pub mod Counts
pub mod Words
pub mod Marks
pub mod Broken
pub mod Levels
pub mod Rungs
pub mod Ledgers
pub mod Bound
pub mod Worked
