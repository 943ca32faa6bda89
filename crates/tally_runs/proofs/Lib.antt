-- What the functions of the report go by.
pub mod Listed
pub mod Stepped
pub mod Tallying
pub mod InPlace
