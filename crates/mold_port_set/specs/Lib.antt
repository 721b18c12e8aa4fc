pub mod Memory
pub mod PortSet
pub mod SenderFilter
pub mod Udp
