pub mod CutToPipe
pub mod BySpare
pub mod FaultCount
pub mod FirstFault
