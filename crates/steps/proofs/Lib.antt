mod Laws
mod Framed
mod Advancing
mod Looping
mod Stacks
