pub mod Slices
pub mod Engine
pub mod Moves
pub mod Lent
pub mod Executes
pub mod Stores
