pub mod XorLaws
pub mod CrcLaws
pub mod TableLaws
pub mod WordLaws
pub mod Vectors
