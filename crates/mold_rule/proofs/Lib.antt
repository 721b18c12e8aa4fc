pub mod RefusalLemmas
pub mod RangeLemmas
pub mod LongestLemmas
pub mod LackingLemmas
