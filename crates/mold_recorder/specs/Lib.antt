pub mod Appending
pub mod CommitPlan
pub mod Recording
