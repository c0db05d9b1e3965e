pub mod Lines
pub mod Printing
pub mod Outcomes
pub mod Trues
pub mod Consoles
pub mod Live
pub mod Formats
