pub mod Received
pub mod Sent
