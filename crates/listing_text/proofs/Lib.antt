-- What is shown of the listing's text.
pub mod Input
pub mod Small
pub mod Fits
pub mod Told
pub mod Worked
