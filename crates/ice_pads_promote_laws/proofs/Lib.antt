mod NewOrigins
mod NewReaders
mod PassedOrigins
mod PassedReaders
mod Wanted
mod Given
