pub mod PlaceLemmas
pub mod PartLemmas
