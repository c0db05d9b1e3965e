mod ColumnLemmas
mod Rows
mod RowLemmas
mod ReplyLemmas
