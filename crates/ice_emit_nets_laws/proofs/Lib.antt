mod Routing
mod Targets
mod Routable
mod Once
mod Few
