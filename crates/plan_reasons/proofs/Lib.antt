mod Rows
mod FindLemmas
mod ReasonLemmas
mod HoldLemmas
mod ReplyLemmas
mod RunLemmas
mod LentLemmas
