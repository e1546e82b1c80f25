mod Growing
mod Summing
