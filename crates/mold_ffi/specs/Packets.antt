-- Packets and requests as the fields of structs.
pub mod MoldPacket
pub mod MoldPlace
pub mod Packer
pub mod Request
