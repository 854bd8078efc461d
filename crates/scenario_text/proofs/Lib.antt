pub mod Blocks
pub mod Usual
