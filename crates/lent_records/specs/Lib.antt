-- What the crate's contracts cite.
pub mod Expiry
pub mod Row
