pub mod Line
pub mod Verdict
pub mod Fault
pub mod Event
pub mod Nesting
pub mod Told
pub mod Served
