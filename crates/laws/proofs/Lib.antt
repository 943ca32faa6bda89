-- The laws that every crate cites.
pub mod Answers
pub mod Bytes
pub mod Numbers
pub mod Parts
pub mod Stores
pub mod Sums
pub mod Tests
