pub mod Listed
pub mod Offsets
pub mod Parts
