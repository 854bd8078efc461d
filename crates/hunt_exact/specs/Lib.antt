pub mod Amiss
pub mod Exact
pub mod Moves
pub mod Searched
pub mod Within
