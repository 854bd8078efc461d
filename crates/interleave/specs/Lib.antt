pub mod Events
pub mod Kept
pub mod Line
pub mod Listing
pub mod Meaning
pub mod Usual
