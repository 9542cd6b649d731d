pub mod Loops
pub mod Fill
