pub mod New
pub mod Chain
