pub mod Bytes
pub mod Limits
pub mod Meanings
pub mod Taking
pub mod Usual
