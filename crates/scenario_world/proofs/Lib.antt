pub mod AnyGoes
pub mod Awaited
pub mod Entries
