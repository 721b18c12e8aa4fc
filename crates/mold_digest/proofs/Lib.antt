pub mod DigestedLemmas
pub mod SaidLemmas
pub mod PacketLemmas
pub mod ReasonLemmas
pub mod OutcomeLemmas
