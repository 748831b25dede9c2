pub mod SheetLaws
pub mod LookLaws
pub mod Literals
