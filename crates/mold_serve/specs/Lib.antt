pub mod Answering
pub mod FileError
pub mod Serving
pub mod Tally
