pub mod Meeting
pub mod Searching
pub mod Resting
