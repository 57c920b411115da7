mod Gathers
mod Fresh
mod Adding
pub mod Loads
mod Parts
