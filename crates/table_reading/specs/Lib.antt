-- What the crate's contracts cite: one record, then the table.
pub mod Answers
pub mod Row
pub mod Table
