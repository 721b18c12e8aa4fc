pub mod Publishing
pub mod Sending
