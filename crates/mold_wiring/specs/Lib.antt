pub mod Addresses
pub mod Ending
pub mod Explaining
pub mod File
pub mod Receiving
pub mod Wiring
