pub mod PublishLoopLemmas
pub mod SendingLemmas
