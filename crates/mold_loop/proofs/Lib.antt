pub mod HeardLemmas
pub mod HearsLemmas
pub mod LocalFeedLemmas
pub mod LoopEndLemmas
pub mod LoopLemmas
pub mod PassingLemmas
pub mod RepairLemmas
pub mod WritingLemmas
