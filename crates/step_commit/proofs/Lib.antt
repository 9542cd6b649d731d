pub mod InnerThenStart
pub mod WholePipe
