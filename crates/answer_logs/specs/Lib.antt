pub mod Found
pub mod Log
