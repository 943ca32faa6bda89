-- What the rig's contract cites, in the rules' order.
pub mod Code
pub mod Given
