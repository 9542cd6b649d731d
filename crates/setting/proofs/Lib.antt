pub mod AllDefinitions
pub mod Figures
pub mod JobFigures
pub mod HeadList
pub mod NeverRising
pub mod Laws
