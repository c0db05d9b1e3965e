pub mod JoiningLemmas
mod Rows
