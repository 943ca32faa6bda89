-- What the crate's contracts cite: what a rule keeps, the event made, and the events in turn.
pub mod Maker
pub mod Made
pub mod Events
