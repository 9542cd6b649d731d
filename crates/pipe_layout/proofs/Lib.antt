pub mod Acceptance
pub mod Turns
