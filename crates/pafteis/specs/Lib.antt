pub mod Called
pub mod Driving
pub mod Asked
pub mod Shown
pub mod Scheduled
pub mod Names
pub mod Seeking
pub mod Keeping
