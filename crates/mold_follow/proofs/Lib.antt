pub mod CatchUpLemmas
pub mod DumpingLemmas
pub mod ServingLemmas
