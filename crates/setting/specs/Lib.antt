pub mod Setting
pub mod Laws
pub mod ChainJob
pub mod Figures
pub mod JobFigures
