pub mod BitsLaws
