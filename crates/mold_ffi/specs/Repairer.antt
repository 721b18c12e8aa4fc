-- A repairer, and what its calls return.
pub mod BatchedRepairer
pub mod Calls
pub mod Followed
pub mod MoldRepairOptions
pub mod MoldRepairStats
pub mod Origin
