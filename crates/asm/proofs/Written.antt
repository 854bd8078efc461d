pub mod Labels
pub mod Codes
pub mod Instructions
pub mod Drivers
pub mod Devices
pub mod Lines
pub mod Said
