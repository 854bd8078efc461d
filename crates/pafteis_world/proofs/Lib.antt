pub mod Deeds
pub mod Batches
pub mod Few
pub mod Blank
pub mod LooseValues
