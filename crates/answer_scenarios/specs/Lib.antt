pub mod Finding
pub mod Scenarios
pub mod Telling
