pub mod Expecting
pub mod Judged
pub mod Places
