-- Demand 3 for bytes, in the order of the log: what a caller of the C function has to believe.
pub mod Places
pub mod ChosenTime
pub mod Premise
pub mod Keeps
pub mod Bytes
pub mod Codes
pub mod CodeTime
pub mod Guarantee
