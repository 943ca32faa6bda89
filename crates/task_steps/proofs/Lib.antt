-- What is shown of an event's own task and of the rank beside the functions' contracts.
pub mod OwnSteps
pub mod Ranks
