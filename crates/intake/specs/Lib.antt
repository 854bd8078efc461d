pub mod Ends
pub mod Finding
pub mod Kept
pub mod Lists
pub mod Rule
