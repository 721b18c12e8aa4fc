pub mod Dumping
pub mod Serving
