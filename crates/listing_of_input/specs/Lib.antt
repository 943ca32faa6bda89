-- What the crate's contracts cite.
pub mod Answer
pub mod Lent
