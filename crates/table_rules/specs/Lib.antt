-- What the crate's contracts cite, in the rules' order.
pub mod Limits
pub mod Rules
pub mod Answers
pub mod Judging
pub mod Order
pub mod Tidy
