pub mod NumberLaws
pub mod AlignLaws
