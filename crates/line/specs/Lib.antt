pub mod Forms
pub mod Asked
pub mod Commands
pub mod Answered
