pub mod Digest
pub mod Kept
