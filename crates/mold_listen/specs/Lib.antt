pub mod Listening
pub mod Text
