pub mod Fields
pub mod Written
pub mod Reading
pub mod Names
