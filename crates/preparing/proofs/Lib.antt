pub mod OneLaws
pub mod PrepareLaws
pub mod Literals
