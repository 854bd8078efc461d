pub mod Counts
pub mod Reports
pub mod Test
pub mod Tests
pub mod Told
pub mod Written
