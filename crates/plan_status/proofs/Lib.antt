pub mod LinesLemmas
pub mod PrintingLemmas
pub mod OutcomesLemmas
pub mod TruesLemmas
pub mod ConsolesLemmas
pub mod LiveLemmas
pub mod FormatLemmas
