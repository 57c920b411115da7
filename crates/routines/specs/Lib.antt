pub mod Calls
pub mod Outcomes
pub mod Works
