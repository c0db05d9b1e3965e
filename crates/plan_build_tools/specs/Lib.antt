pub mod Naming
pub mod Cleaning
