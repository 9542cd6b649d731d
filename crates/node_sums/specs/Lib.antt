pub mod FromRows
