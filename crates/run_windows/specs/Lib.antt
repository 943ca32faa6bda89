-- What a reader has to believe, in the rules' order.
pub mod Outcomes
pub mod Broken
pub mod History
pub mod Bound
