pub mod PositionLemmas
pub mod RemoveLemmas
pub mod InsertLemmas
pub mod DependentLemmas
pub mod CountLemmas
pub mod BucketLemmas
pub mod ScheduleLemmas
pub mod WaitLemmas
pub mod PickLemmas
pub mod OpenLemmas
pub mod PhaseLemmas
pub mod UncountedLemmas
mod Rows
