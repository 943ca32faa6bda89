-- The theorems on runs that need no premise, from one event up to the closed jobs.
pub mod Steps
pub mod Closes
pub mod Taken
pub mod Reached
pub mod InOrder
pub mod Jobs
pub mod Counted
pub mod Traced
