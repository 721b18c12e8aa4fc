-- A listener, and what its calls return.
pub mod BatchedArbiter
pub mod Gaps
pub mod Hearing
pub mod MoldDelivery
pub mod MoldReport
pub mod MoldTaken
pub mod Origin
pub mod Room
pub mod Taking
