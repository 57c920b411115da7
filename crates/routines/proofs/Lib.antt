pub mod Laws
mod Joined
