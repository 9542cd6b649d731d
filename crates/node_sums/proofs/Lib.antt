pub mod AlongRows
pub mod NodeSums
pub mod OverNodes
