mod PlacedTexts
mod SharedPinSteps
mod DerivedEquality
mod SharedLaws
mod NoPins
mod MarkLaws
