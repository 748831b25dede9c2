pub mod Seen
pub mod Both
