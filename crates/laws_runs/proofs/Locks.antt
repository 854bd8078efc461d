pub mod Says
pub mod Steps
pub mod Runs
