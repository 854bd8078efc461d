pub mod Evidence
pub mod Fault
pub mod Path
pub mod Table
