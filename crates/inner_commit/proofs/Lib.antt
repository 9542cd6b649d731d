pub mod CommitInPlace
