pub mod Failing
pub mod Judging
pub mod Told
