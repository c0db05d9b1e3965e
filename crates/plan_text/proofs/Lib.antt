mod Rows
mod Walks
pub mod PathLemmas
pub mod PieceReaderLemmas
mod PlainTable
pub mod RowListLemmas
pub mod RunReaderLemmas
pub mod LineReaderLemmas
pub mod SinkLemmas
pub mod CanonicalPathsLemmas
pub mod CanonicalLaw
pub mod NumeralsLemmas
pub mod EscapeLaw
pub mod CoverLaw
pub mod JoinLaw
mod HashWordsLemmas
pub mod PathFilterLemmas
pub mod SharedRowsLemmas
