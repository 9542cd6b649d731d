pub mod SectionRows
pub mod Faults
