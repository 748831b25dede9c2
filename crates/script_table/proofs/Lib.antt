pub mod LaidLaws
pub mod TableLaws
