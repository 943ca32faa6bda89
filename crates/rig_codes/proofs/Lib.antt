-- What is shown of the rig's code.
pub mod Answers
pub mod Starts
pub mod Cases
pub mod Exactly
pub mod Told
