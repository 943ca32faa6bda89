-- What is shown of the lines of a log beside the functions' contracts.
pub mod Events
