pub mod Granted
pub mod Falls
pub mod Kept
