-- A server, and what its calls return.
pub mod Answering
pub mod Calls
pub mod MoldPlan
pub mod Serving
