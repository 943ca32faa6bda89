-- What a reader has to believe of a report.
pub mod Answer
pub mod Events
pub mod Sound
pub mod Report
pub mod Responses
pub mod Reports
pub mod Chunks
pub mod MetJobs
pub mod TwoLogs
