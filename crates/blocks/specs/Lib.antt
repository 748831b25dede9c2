pub mod Choice
pub mod Lists
pub mod Blocks
pub mod Placing
pub mod Tiers
pub mod Deciding
pub mod Records
