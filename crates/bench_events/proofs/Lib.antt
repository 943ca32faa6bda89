-- What the functions' proofs share, and how events are made one after the other.
mod Laws
pub mod Making
