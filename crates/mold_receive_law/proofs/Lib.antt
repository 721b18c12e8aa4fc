pub mod PrintedLemmas
pub mod StoppedLemmas
pub mod EndedLemmas
