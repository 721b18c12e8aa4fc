pub mod Reports
pub mod Script
pub mod Sim
pub mod EventWords
