pub mod Key
pub mod Digested
pub mod Conflicts
