pub mod Rounds
pub mod CatchUp
pub mod Taking
pub mod Examples
