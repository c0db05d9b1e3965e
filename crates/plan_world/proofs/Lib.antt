mod AnswerLemmas
mod PathLemmas
mod RecordingLemmas
mod Rows
