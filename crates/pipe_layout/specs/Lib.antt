pub mod Layout
pub mod EachPipe
