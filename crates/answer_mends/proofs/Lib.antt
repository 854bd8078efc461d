pub mod Applied
pub mod Mends
