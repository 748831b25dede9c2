pub mod Prepare
pub mod Claims
