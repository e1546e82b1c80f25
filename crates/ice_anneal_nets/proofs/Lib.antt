mod Joining
mod Holding
mod ByRoots
mod Bridge
mod Fits
