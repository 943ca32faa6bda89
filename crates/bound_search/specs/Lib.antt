-- What the crate's contracts cite, in the order of Rules, "Response bound".
pub mod Fits
pub mod Bound
pub mod Answers
