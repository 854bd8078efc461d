pub mod Cuts
pub mod Places
pub mod Spaced
pub mod Digits
pub mod Words
