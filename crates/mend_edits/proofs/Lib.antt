pub mod Edits
pub mod Turns
