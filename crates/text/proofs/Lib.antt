pub mod Laws
mod TextOrder
mod Pieces
