pub mod Raised
pub mod Requests
