pub mod Audit
pub mod Nesting
pub mod Telling
