pub mod Wave
pub mod Nodes
pub mod Adding
pub mod Figures
pub mod RundownFigures
pub mod OpenAir
