mod Levels
mod Taking
mod Holding
mod Closing
mod Elsewhere
