pub mod Promoted
pub mod PromotionLaws
pub mod Promotable
pub mod Filling
pub mod Free
