pub mod Buffer
pub mod Opened
pub mod Packed
pub mod Read
pub mod Shown
pub mod Growing
pub mod Stored
