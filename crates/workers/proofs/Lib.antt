pub mod Counting
pub mod Entering
pub mod Turning
pub mod Seats
pub mod Opening
pub mod Totals
pub mod Closing
pub mod Standstill
