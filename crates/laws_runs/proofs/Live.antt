pub mod Sees
pub mod Steps
pub mod Kept
pub mod Claimed
pub mod Named
