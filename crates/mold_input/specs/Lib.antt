pub mod Blocks
pub mod BlocksToEmpty
pub mod Entries
pub mod Formats
pub mod LongLines
pub mod PacketLines
pub mod PacketPart
