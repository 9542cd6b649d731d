pub mod SlowClosure
