pub mod Batch
pub mod Reply
pub mod Fits
pub mod Records
pub mod Refusing
