pub mod ProgramLaws
pub mod WrittenLaws
