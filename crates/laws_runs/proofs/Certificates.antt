pub mod Tags
pub mod Owed
pub mod Tally
pub mod Steps
pub mod Kept
