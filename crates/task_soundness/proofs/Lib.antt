-- What is shown of soundness beside the functions' contracts.
pub mod Kept
pub mod Sounding
