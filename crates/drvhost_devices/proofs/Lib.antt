pub mod Collected
pub mod Delivered
pub mod Files
pub mod Doing
pub mod Painting
pub mod Writing
