pub mod Worked
pub mod Ended
pub mod Standing
pub mod Turned
pub mod Kept
pub mod Serves
