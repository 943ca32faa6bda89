-- What the crate's contracts cite, in the rules' order.
pub mod Window
pub mod Closing
