pub mod LoopLawLemmas
