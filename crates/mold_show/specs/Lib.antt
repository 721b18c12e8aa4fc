pub mod Dump
pub mod Listed
pub mod Pack
pub mod PackJournal
pub mod Packets
pub mod Show
pub mod ShowRequests
