-- What is shown of a tally beside the functions' contracts.
pub mod Answers
pub mod Cells
pub mod Telling
pub mod Taking
pub mod Fitting
pub mod Kept
pub mod Exactly
pub mod Over
pub mod OneByOne
pub mod AnyOrder
pub mod OfResponses
pub mod Worked
