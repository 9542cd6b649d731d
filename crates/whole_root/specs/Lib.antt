pub mod WholeRoot
pub mod Table
pub mod Digits
pub mod Figures
