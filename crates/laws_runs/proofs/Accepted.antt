pub mod Trace
pub mod Keeps
pub mod Lasts
pub mod Kinds
pub mod Laws
pub mod OwnLocks
