pub mod Places
pub mod Slots
pub mod Order
pub mod Used
pub mod Numbered
pub mod Found
pub mod Search
pub mod Walks
