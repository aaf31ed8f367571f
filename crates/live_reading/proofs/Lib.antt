mod Enough
mod Looks
mod Underway
