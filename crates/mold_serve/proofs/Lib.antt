pub mod AnsweringLemmas
pub mod FileErrorLemmas
pub mod ServingLemmas
