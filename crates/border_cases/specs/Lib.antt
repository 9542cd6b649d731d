pub mod Jobs
pub mod Cases
pub mod NodeCases
pub mod RowCases
pub mod Border
