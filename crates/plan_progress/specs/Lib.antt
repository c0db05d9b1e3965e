pub mod Command
pub mod Counting
pub mod Eliding
pub mod Pace
pub mod Running
pub mod Template
pub mod BuildLines
