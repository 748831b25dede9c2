pub mod MarkLaws
pub mod InsertLaws
pub mod RangeLaws
pub mod ValidLaws
pub mod AlignedLaws
pub mod WordLaws
