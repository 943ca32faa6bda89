-- What is shown of an event's effect.
pub mod Happened
pub mod Exactly
pub mod Left
pub mod Choice
pub mod Frame
pub mod Kept
pub mod Places
pub mod Runs
pub mod After
pub mod Worked
pub mod Computing
pub mod Views
