pub mod Entries
pub mod Differences
pub mod Soundness
pub mod RecurrenceTies
pub mod RowLaws
