pub mod NodeHeads
