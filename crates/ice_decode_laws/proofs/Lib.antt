pub mod NoneFound
