-- What is shown of a report.
pub mod Answers
pub mod Beside
pub mod Added
pub mod Runs
pub mod InOrder
pub mod Limits
pub mod Exactly
pub mod Appended
pub mod Kept
pub mod Chunks
pub mod Fresh
pub mod MetJobs
pub mod TwoLogs
