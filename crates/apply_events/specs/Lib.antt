-- What an event does, in the rules' order.
pub mod Answer
pub mod Steps
pub mod Apply
pub mod Answers
pub mod Verdict
pub mod Leaves
pub mod Choice
pub mod Log
