-- What the proofs of functions cite.
pub mod Steps
