pub mod DatagramLemmas
pub mod PublishingLemmas
