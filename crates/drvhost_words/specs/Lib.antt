pub mod Devices
pub mod Program
pub mod Unread
pub mod Returned
