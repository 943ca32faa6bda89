-- What the functions' proofs share, and how a run goes on.
mod Laws
pub mod Running
