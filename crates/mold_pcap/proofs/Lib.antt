pub mod BlockLemmas
pub mod CaptureLemmas
pub mod ClassicLemmas
pub mod CutLemmas
pub mod LookLemmas
pub mod NumberLemmas
pub mod OptionLemmas
pub mod WindowLemmas
