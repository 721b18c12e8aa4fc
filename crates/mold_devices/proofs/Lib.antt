pub mod DeviceLemmas
pub mod LineLemmas
pub mod TurnLemmas
pub mod WritingLemmas
