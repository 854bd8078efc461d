pub mod Given
pub mod Program
pub mod Table
pub mod Matched
pub mod Choices
pub mod CommandLine
