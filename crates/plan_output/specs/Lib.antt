pub mod Escapes
pub mod Signals
