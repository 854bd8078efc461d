pub mod Cancels
pub mod Comparing
pub mod Meanings
pub mod Usual
