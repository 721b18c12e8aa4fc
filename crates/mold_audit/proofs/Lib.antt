pub mod DigestLemmas
pub mod SlotLemmas
pub mod NoteLemmas
pub mod CheckLemmas
pub mod LawLemmas
