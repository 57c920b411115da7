pub mod Buffers
pub mod Pieces
pub mod Scalars
