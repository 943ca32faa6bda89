-- What the crate's contracts cite.
pub mod Folds
pub mod Chunks
pub mod Asked
