-- The laws of the signed level.
pub mod Needs
