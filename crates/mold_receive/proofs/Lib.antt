pub mod CallLemmas
pub mod OpeningLemmas
pub mod PrintingLemmas
