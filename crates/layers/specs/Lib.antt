pub mod Layers
pub mod Formed
pub mod Sides
