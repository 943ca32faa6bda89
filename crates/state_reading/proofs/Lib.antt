-- What is shown of a state that table bytes begin.
pub mod Starts
