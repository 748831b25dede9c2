pub mod Commands
pub mod Replies
pub mod Engines
pub mod Batches
