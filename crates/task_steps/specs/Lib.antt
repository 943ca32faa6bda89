-- What the crate's contracts cite, in the order of the rules.
pub mod Opening
pub mod Own
pub mod Rank
