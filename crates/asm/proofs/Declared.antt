pub mod Behind
pub mod Known
pub mod Answer
pub mod Least
pub mod First
