pub mod CommandLemmas
pub mod FailuresLemmas
pub mod BuildLinesLemmas
mod Rows
