-- A checker, and what its calls return.
pub mod Calls
pub mod MoldRange
pub mod MoldVerdict
