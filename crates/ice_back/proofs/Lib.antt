mod Rooms
mod FirstPins
mod Fits
mod Ports
mod PadCells
mod Named
