pub mod Orders
pub mod Warnings
pub mod Lines
