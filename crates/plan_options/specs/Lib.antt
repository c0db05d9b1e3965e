pub mod Commands
pub mod Integers
pub mod Letters
pub mod LongOptions
pub mod Reading
pub mod Saying
pub mod Stops
pub mod ToolWords
