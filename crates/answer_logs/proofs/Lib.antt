pub mod Adding
pub mod Ending
pub mod Explained
pub mod Single
