pub mod BatchLaws
pub mod ParseLaws
pub mod ReplyLaws
pub mod BoundLaws
pub mod CutLaws
pub mod RecordLaws
pub mod Literals
