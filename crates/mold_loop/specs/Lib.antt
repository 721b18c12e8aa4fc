pub mod LocalFeed
pub mod Looping
pub mod Ordered
pub mod Passing
pub mod Repairing
pub mod Writing
