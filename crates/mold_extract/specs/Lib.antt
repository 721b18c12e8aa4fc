pub mod Carried
pub mod Extracting
pub mod Journal
pub mod Text
pub mod Run
