pub mod FaultLemmas
pub mod OutgoingLemmas
pub mod PrintingLemmas
pub mod RunLemmas
