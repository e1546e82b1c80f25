pub mod RamData
pub mod RamTexts
pub mod Views
pub mod ClosedNetlists
pub mod ClosedViews
pub mod RamClocks
