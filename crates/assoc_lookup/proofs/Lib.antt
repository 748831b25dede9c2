pub mod StepLaws
pub mod LookLaws
pub mod WordSteps
pub mod KeyNumberLaws
