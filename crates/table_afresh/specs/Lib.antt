pub mod TableText
pub mod Figures
