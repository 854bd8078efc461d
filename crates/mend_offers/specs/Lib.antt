pub mod Advice
pub mod Offers
