pub mod Regions
pub mod Sheets
