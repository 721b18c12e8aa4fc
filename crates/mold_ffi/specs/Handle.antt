-- What a handle owns, what it may hold, and how that is borrowed.
pub mod Borrow
pub mod Lending
pub mod Ownership
