pub mod One
pub mod Marked
pub mod Painted
pub mod All
pub mod Held
