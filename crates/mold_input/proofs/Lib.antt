pub mod BlockLemmas
pub mod JoiningLemmas
pub mod LongLemmas
mod LawLemmas
mod RefusedLemmas
mod StartLemmas
mod ToEmptyLemmas
mod ToEmptyLawLemmas
