-- What the choice over a row is, how step 1 goes over it, and when each of its records is sound.
pub mod Choices
pub mod Expired
pub mod Sounds
