pub mod Cases
pub mod RunningLaws
pub mod DemandLaws
pub mod CallLaws
pub mod RefusalLaws
pub mod ClaimLaws
pub mod PreparedLaws
pub mod ListCallLaws
