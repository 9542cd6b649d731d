pub mod WholeLaws
mod Figures
pub mod TableRule
mod Corrected
mod LaterDigits
