pub mod BetweenLemmas
pub mod PuttingLemmas
pub mod FullLemmas
pub mod RunLemmas
pub mod JournalLemmas
pub mod LawLemmas
pub mod ResultLemmas
