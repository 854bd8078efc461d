pub mod Line
pub mod Listing
pub mod Repeating
pub mod Together
pub mod Usual
