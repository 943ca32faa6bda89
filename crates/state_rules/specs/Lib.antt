-- What the crate's contracts cite.
pub mod Started
pub mod State
pub mod Sound
pub mod Choice
