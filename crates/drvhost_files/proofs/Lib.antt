pub mod Below
pub mod Holding
pub mod Known
