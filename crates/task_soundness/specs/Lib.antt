-- What the crate's contracts cite.
pub mod Counts
pub mod Sound
