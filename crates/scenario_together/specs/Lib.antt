pub mod Ends
pub mod Interleaving
pub mod Joining
pub mod Likeness
pub mod Plays
pub mod Standing
pub mod Together
