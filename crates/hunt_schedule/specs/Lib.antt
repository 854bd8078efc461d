pub mod Exact
pub mod Headline
pub mod Lines
pub mod Telling
