pub mod Listing
pub mod Visits
pub mod Claims
pub mod Refusing
