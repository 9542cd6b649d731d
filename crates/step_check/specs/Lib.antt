pub mod BySpare
