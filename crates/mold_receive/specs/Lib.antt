pub mod Opening
pub mod Options
pub mod Receiving
pub mod Refused
pub mod Statistics
