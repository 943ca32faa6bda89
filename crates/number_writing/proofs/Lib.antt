-- The laws of bytes written, and read back.
pub mod Places
pub mod Trips
