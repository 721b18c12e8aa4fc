pub mod FaultLemmas
pub mod FoldLemmas
pub mod IpLemmas
pub mod NameLemmas
pub mod OrderLemmas
pub mod ValuesLemmas
pub mod ValueLemmas
