pub mod Keys
pub mod Parts
pub mod Sums
