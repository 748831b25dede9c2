pub mod FillLaws
pub mod NumberLaws
pub mod OrLaws
pub mod WriteLaws
