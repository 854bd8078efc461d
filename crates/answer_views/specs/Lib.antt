pub mod Seen
pub mod Told
pub mod InJson
