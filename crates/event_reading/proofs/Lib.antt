-- The theorems of events, in the order of the rules.
pub mod Rules
pub mod ReadOne
pub mod Single
pub mod Computing
