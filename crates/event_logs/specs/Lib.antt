-- What the crate's contracts cite.
pub mod Stops
pub mod Log
pub mod Ending
