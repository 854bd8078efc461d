pub mod Below
pub mod Files
pub mod Found
pub mod Kept
pub mod Outside
pub mod Reading
pub mod Ready
