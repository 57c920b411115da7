mod Chars
mod Cutting
mod Floats
pub mod Hex
pub mod Laws
mod Decimal
mod Naming
pub mod Ranges
pub mod Valued
pub mod Same
pub mod Shown
