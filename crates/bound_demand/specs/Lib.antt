-- What the crate's contracts cite, in the order of Rules, "Response bound".
pub mod Above
pub mod Demand
pub mod Load
