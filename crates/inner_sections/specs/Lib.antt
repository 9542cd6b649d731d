pub mod InnerSections
pub mod CutPipes
