pub mod Pins
mod StepsTold
mod Words
