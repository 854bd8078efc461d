pub mod Delivery
pub mod Shown
