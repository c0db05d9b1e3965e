pub mod WritingLemmas
pub mod OrderLemmas
pub mod NeedLemmas
pub mod SuggestionLemmas
pub mod SortLemmas
pub mod RootLemmas
pub mod TreeLemmas
mod Rows
