pub mod Allowing
pub mod Coming
pub mod Counting
pub mod Ending
pub mod Fine
pub mod Following
pub mod Reaching
