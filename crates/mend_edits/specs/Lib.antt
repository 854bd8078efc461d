pub mod Diff
pub mod Lines
pub mod Patch
