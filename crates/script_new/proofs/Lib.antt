pub mod StayingLaws
pub mod WideLaws
pub mod StepLaws
pub mod ChainLaws
pub mod NewLaws
pub mod BeginLaws
pub mod FinalLaws
