pub mod Memory
pub mod Outlook
pub mod Ports
pub mod Udp
