pub mod Lists
pub mod Rings
pub mod Linked
pub mod Rows
pub mod Numbers
