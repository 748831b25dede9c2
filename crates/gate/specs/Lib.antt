pub mod Gate
pub mod Claims
