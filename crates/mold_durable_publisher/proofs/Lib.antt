mod AppendLemmas
mod IndexLemmas
mod LendingLemmas
mod PublishingLemmas
pub mod ServingLemmas
mod ToldLemmas
