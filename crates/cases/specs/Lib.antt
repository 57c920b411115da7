pub mod Cases
pub mod Judged
