mod FirstBytes
mod Numbers
mod Answering
pub mod Selecting
mod Rowed
pub mod Roomed
