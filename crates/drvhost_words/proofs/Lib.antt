pub mod Answering
pub mod Rewritten
pub mod Behind
pub mod Ending
pub mod Tasks
pub mod Mended
pub mod Kept
