-- What a reader has to believe of a run.
pub mod History
pub mod Counted
pub mod Traced
