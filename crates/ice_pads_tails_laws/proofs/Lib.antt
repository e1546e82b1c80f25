mod NewOrigins
mod NewReaders
mod Wanted
mod FlopReaders
mod SameBuffers
mod Given
