pub mod Checking
pub mod Seen
pub mod Answers
