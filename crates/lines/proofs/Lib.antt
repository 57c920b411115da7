mod Ended
mod Spelling
mod Placed
mod Told
mod Judged
mod Keeping
