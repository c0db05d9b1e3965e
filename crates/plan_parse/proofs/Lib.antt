mod Rows
pub mod ReadingLemmas
mod PlainTable
pub mod BlockLemmas
pub mod ParserLemmas
pub mod CompactLemmas
pub mod RoleLemmas
pub mod WordLemmas
pub mod PartLemmas
mod CutLemmas
mod UnitLemmas
pub mod WholeLaw
pub mod LikeLemmas
pub mod StatementLemmas
pub mod JoinLaw
pub mod JoinedLemmas
pub mod KeptLemmas
pub mod FaultLaw
