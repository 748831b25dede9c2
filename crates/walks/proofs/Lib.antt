pub mod MissLaws
pub mod StillLaws
pub mod ReadLaws
pub mod HostLaws
pub mod Example
