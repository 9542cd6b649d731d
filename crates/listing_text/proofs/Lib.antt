pub mod StoredTexts
pub mod Digits
pub mod Figures
