-- The laws of little-endian numbers.
pub mod Places
