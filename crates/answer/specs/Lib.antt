pub mod Told
pub mod Names
pub mod Check
pub mod Judged
pub mod Delivered
pub mod Run
pub mod Listing
