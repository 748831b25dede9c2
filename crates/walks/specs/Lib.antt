pub mod Walk
pub mod Host
