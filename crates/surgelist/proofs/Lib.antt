pub mod ClosingLaws
pub mod ListingLaws
pub mod Figures
