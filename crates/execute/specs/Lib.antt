pub mod Execute
pub mod State
pub mod Table
pub mod Part
pub mod Promised
pub mod Widths
