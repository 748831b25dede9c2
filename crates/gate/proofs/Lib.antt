pub mod NanLaws
pub mod ShareLaws
pub mod LimitLaws
pub mod GateLaws
pub mod ExactLaws
pub mod Literals
