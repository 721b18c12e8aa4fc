pub mod AppendingLemmas
pub mod EndingLemmas
pub mod RecordingLemmas
