pub mod Roots
pub mod Events
pub mod Kept
pub mod Threads
pub mod Faultless
