pub mod Frames
pub mod Left
pub mod Ran
pub mod Lending
