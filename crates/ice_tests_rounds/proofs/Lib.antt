mod Short
mod Routes
mod OneBlock
mod TwoNets
