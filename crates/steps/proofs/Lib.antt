pub mod DecideLaws
pub mod WordLaws
pub mod MarkLaws
pub mod RunLaws
pub mod StepLaws
pub mod ChildLaws
