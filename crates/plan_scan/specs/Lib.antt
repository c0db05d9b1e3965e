pub mod Scans
pub mod Steps
