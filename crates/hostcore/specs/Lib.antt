pub mod Core
pub mod Stored
pub mod Kept
pub mod Indexed
pub mod Stepping
pub mod Noted
pub mod Linked
pub mod Numbers
