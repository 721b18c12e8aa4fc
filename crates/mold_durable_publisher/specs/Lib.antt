pub mod DurablePublisher
pub mod Told
