pub mod Held
pub mod Ranges
pub mod Refusals
