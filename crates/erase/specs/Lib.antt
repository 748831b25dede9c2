pub mod Freed
pub mod Tall
pub mod Leaving
