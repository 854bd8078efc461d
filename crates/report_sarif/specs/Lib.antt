pub mod Message
pub mod Uri
pub mod Log
