pub mod ListingOf
pub mod LentRows
pub mod Figures
