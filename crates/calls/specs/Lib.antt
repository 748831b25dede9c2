pub mod Calls
pub mod Refusal
pub mod Demand
pub mod Prepared
pub mod Cases
pub mod Running
