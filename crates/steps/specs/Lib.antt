pub mod Steps
pub mod Walk
pub mod Frames
pub mod Machines
