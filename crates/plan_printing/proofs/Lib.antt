mod Rows
mod BufferLemmas
