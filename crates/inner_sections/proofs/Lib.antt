pub mod CutRows
pub mod Parts
pub mod RecurrenceTies
