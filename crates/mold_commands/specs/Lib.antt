pub mod Command
pub mod Folder
pub mod Upgrade
