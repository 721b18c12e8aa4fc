pub mod HandedLemmas
pub mod ListenLemmas
pub mod TurnLemmas
