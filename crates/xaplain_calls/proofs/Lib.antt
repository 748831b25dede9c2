pub mod RunningLaws
pub mod CallLaws
pub mod CheckedLaws
pub mod LeaveLaws
pub mod DemandLaws
pub mod RefusalLaws
pub mod Literals
