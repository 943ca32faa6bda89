-- What the crate's contracts cite.
pub mod Decimal
pub mod Sheet
pub mod Puts
