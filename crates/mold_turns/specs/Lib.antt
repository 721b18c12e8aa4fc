pub mod Outgoing
pub mod Runs
pub mod Sides
