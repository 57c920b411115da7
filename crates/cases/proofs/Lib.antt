mod Nine
mod Given
