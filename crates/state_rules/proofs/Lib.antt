-- What is shown of the state beside the functions' contracts.
pub mod Each
pub mod Sounding
pub mod Starting
pub mod Views
