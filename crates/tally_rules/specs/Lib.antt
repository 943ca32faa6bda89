-- What the crate's contracts cite, and what a list of responses is.
pub mod Tally
pub mod Sound
pub mod Answer
pub mod Adding
pub mod Responses
