mod Exact
mod Divided
mod Literals
mod Magnitudes
pub mod Agree
mod Patterned
mod Remaining
