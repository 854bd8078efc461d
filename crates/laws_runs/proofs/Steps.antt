pub mod Words
pub mod Comes
pub mod Onward
pub mod Walk
pub mod Faults
pub mod Below
pub mod Locking
pub mod Queues
