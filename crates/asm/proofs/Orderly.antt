pub mod Names
pub mod Devices
pub mod ClosedRoutines
pub mod ClosedDrivers
pub mod Lines
