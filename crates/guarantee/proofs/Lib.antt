-- The theorems on runs under the premise, up to the guarantee.
pub mod Busy
pub mod Required
pub mod Levels
pub mod Passing
pub mod Acting
pub mod Ticks
pub mod Runs
pub mod Theorem
pub mod Trying
pub mod Computing
pub mod Listing
pub mod Needed
