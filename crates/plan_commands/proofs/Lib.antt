pub mod Rows
pub mod VerdictsLemmas
mod MakerLemmas
mod TargetLemmas
mod ShowingLemmas
mod RunningLemmas
mod RecordedLemmas
mod BuildingLemmas
mod BuildRightLemmas
mod ComparingLemmas
mod CompilingLemmas
mod DryLemmas
mod ExplainingLemmas
mod SourcesLemmas
