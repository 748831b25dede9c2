pub mod EngineLaws
pub mod BatchesLaws
