pub mod Find
pub mod Hunt
pub mod Json
pub mod Nesting
