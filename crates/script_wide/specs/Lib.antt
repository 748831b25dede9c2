pub mod Climb
pub mod Freed
pub mod Going
pub mod Wide
