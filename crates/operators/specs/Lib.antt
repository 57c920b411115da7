pub mod Applied
pub mod Listed
pub mod Numbers
pub mod Rooms
pub mod Serving
pub mod Selecting
