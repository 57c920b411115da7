pub mod Routines
pub mod Rows
pub mod Table
