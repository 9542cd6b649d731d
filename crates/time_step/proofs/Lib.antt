pub mod RunLaws
pub mod JudgedEnds
pub mod StepInRows
