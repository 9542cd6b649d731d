pub mod Figures
pub mod RundownFigures
pub mod OpenAir
