pub mod Text
pub mod Listing
pub mod InnerContracts
pub mod Stored
pub mod Figures
