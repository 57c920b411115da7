pub mod Sets
pub mod Check
pub mod Run
pub mod Later
pub mod Rules
