pub mod Nearest
pub mod Fractions
pub mod Root
pub mod Digits
pub mod Answer
pub mod Figures
