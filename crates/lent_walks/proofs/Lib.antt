-- The steps that walks share.
pub mod Values
pub mod Operands
pub mod Plain
pub mod While
pub mod Rows
pub mod Loans
pub mod Locals
