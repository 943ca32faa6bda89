-- What the crate's contracts cite.
pub mod Best
pub mod Choice
pub mod Least
