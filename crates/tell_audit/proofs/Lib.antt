pub mod Finishing
pub mod Found
pub mod Holding
pub mod Leaving
pub mod Refusals
pub mod Rehearsing
pub mod Ringing
