pub mod Earliest
pub mod Missed
pub mod Turn
pub mod Instructions
pub mod Entries
pub mod Lines
