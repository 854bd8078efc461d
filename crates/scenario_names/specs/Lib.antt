pub mod Issued
pub mod Names
pub mod Operands
