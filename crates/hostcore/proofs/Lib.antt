pub mod Keeping
pub mod Owing
pub mod Indexing
pub mod Stepping
pub mod Links
pub mod Walk
pub mod Noting
