pub mod KeptLemmas
pub mod LineLemmas
pub mod RoomLemmas
pub mod WritingLemmas
