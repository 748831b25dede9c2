pub mod Words
pub mod Decode
pub mod WellFormed
pub mod Reading
