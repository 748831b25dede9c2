pub mod Counted
pub mod Bits
pub mod Bytes
pub mod Fill
