-- What the crate's contracts cite: folding, and what a run comes to.
pub mod Folds
pub mod Runs
pub mod Asked
