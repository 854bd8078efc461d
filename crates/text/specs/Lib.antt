pub mod Cut
pub mod Class
pub mod Number
pub mod Lexical
pub mod Major
pub mod Places
pub mod Spaced
pub mod Digits
