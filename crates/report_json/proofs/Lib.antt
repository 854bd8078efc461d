pub mod Steps
pub mod ReadBack
pub mod Rules
pub mod Routines
