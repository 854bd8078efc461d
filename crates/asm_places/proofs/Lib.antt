pub mod Alone
pub mod Passing
pub mod Rising
pub mod Standing
pub mod Words
