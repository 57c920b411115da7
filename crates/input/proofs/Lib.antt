mod Feeding
mod Known
mod Parts
