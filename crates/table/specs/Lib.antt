pub mod Rows
pub mod Formed
pub mod Tables
