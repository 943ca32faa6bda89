-- The guarantee for bytes, from the one of `guarantee`.
pub mod Places
pub mod Premise
pub mod Rows
pub mod Named
pub mod Theorem
pub mod Fronts
pub mod Codes
pub mod Standing
pub mod Times
pub mod Listing
