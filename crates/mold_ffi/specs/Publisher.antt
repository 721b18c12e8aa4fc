-- A publisher, and what its calls return.
pub mod Appending
pub mod Exchange
pub mod Records
pub mod Resuming
