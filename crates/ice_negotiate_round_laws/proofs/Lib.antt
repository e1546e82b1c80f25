mod Events
mod Rounds
