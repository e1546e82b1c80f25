pub mod ClosedText
pub mod NetlistText
pub mod NetlistTextLaw
pub mod ReadNames
pub mod SameNames
