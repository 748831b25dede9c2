pub mod BuildLaws
pub mod FollowLaws
