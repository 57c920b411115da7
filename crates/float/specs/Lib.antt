pub mod Operations
pub mod Tolerance
pub mod Exactly
pub mod Agreement
pub mod Worked
pub mod Exchange
pub mod Patterns
