-- What an event does to the first records of an array.
pub mod Fronts
