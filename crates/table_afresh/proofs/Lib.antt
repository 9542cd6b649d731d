mod Figures
pub mod TableLaws
