pub mod AsksLemmas
pub mod RoundsLemmas
pub mod PacketLemmas
pub mod FilledLemmas
pub mod AnswerLemmas
pub mod StartLemmas
pub mod CatchUpLemmas
pub mod ExampleLemmas
