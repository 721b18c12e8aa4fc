pub mod StepLemmas
pub mod UdpLemmas
pub mod Ipv4Lemmas
pub mod Ipv6Lemmas
pub mod TagLemmas
pub mod LawLemmas
pub mod AddressLemmas
