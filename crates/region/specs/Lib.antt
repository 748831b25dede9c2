pub mod Region
pub mod Claims
