pub mod FilledLaws
pub mod LeavingLaws
pub mod LowerLaws
pub mod FreedLaws
pub mod ErasedLaws
