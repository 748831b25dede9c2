pub mod SameLaws
pub mod BothLaws
pub mod Literals
