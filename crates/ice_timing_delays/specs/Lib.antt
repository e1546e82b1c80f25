pub mod DelayTexts
