pub mod Json
pub mod Nesting
pub mod Order
pub mod Sizes
pub mod Stats
