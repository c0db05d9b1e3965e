pub mod EntryLemmas
pub mod ReadingLemmas
pub mod PlacedLemmas
pub mod FrontLemmas
pub mod RecordLemmas
pub mod CompactionLemmas
pub mod PathsLemmas
mod AmongLemmas
pub mod AddedLemmas
mod Rows
