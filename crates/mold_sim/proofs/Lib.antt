pub mod ReceiverLemmas
pub mod SimLemmas
pub mod WordLemmas
