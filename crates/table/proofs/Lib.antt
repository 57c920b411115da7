mod Rowed
mod Asked
mod Lent
mod Written
mod Blank
