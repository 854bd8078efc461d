pub mod Judging
pub mod Steps
