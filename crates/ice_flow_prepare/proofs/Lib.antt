mod Names
mod Composed
