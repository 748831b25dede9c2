pub mod TableLaws
pub mod PartLaws
pub mod SameLaws
