pub mod Edited
pub mod Given
