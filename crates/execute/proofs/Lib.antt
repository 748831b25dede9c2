pub mod ExecuteLaws
pub mod ReplyLaws
pub mod LocalLaws
pub mod PartLaws
pub mod Footprint
pub mod TableLaws
pub mod ReplyFits
pub mod Literals
