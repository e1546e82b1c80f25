mod Telling
mod Finding
