pub mod Chain
pub mod Figures
