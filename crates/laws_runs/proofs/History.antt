pub mod Waits
pub mod ToldTops
