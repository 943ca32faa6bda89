-- The definitions that every crate cites.
pub mod Bytes
pub mod Numbers
pub mod Said
pub mod Stores
pub mod Sums
pub mod Tests
