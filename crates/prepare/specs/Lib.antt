pub mod Entries
pub mod Put
