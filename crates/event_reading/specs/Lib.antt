-- What the crate's contracts cite, in the order of the rules.
pub mod Reading
pub mod Event
pub mod Record
pub mod Answer
