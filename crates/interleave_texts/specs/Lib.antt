pub mod Listed
pub mod Meaning
pub mod Script
pub mod Usual
pub mod Words
