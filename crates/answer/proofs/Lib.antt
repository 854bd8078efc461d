pub mod Lines
pub mod Naming
pub mod Checking
pub mod Delivering
pub mod AsText
pub mod AsJson
pub mod Running
