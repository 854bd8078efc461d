pub mod Cycles
pub mod Warned
pub mod Telling
