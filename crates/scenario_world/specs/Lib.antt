pub mod Expected
pub mod Goers
pub mod Going
pub mod Releases
pub mod States
pub mod Until
