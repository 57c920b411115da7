pub mod Kinds
pub mod Ops
pub mod Values
