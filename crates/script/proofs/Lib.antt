pub mod FormLaws
pub mod ScriptLaws
pub mod ApplyLaws
pub mod AgainLaws
pub mod Literals
