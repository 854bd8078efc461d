pub mod FrameLists
pub mod Issuing
pub mod Lists
pub mod Showing
pub mod Walks
