pub mod Arrived
pub mod Counting
pub mod Devices
pub mod One
pub mod Threads
