mod Rows
mod FileLemmas
mod RuleLemmas
mod InputLemmas
mod CommandLemmas
mod PhonyLemmas
mod WantedLemmas
