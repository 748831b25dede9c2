pub mod Model
pub mod ByBlock
pub mod Matches
