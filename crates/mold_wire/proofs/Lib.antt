pub mod HeaderLemmas
pub mod BlockLemmas
pub mod PacketLemmas
pub mod ReadingLemmas
pub mod RequestLemmas
pub mod MeaningLemmas
pub mod SpellingLemmas
pub mod PackingLemmas
pub mod FrontLemmas
pub mod TruthLemmas
pub mod PackerLemmas
mod SessionLemmas
