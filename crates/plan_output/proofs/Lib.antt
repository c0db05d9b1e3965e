mod Rows
pub mod EscapesLemmas
