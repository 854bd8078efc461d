pub mod Adding
pub mod Counting
pub mod Ending
pub mod Gathering
pub mod Zips
