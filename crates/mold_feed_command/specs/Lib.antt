pub mod Closing
pub mod Ports
