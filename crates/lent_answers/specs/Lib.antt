-- What the crate's contracts cite.
pub mod Turn
pub mod Turns
