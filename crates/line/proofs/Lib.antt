mod Shaped
mod Asking
