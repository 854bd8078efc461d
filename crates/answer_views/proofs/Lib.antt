pub mod ToldLines
pub mod Unchanged
pub mod ToldOn
pub mod ToldAnswers
pub mod ToldAlone
pub mod PlainlySeen
pub mod DrawnRuns
pub mod ToldJson
