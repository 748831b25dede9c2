pub mod Sheets
pub mod Parts
pub mod Claims
pub mod Reading
