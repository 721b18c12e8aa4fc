pub mod Line
pub mod Room
pub mod Text
