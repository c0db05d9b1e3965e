pub mod Observing
pub mod Facts
pub mod Lent
pub mod Replies
pub mod Reasons
pub mod Causes
pub mod Sentences
