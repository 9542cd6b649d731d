pub mod ChainFigures
pub mod ChainLaws
