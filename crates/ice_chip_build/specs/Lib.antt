pub mod BitsUsed
pub mod Marks
pub mod UsedViews
pub mod PlacedTexts
