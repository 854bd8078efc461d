pub mod Survey
pub mod Table
pub mod Pass
pub mod Certificates
pub mod Verdict
pub mod FirstFault
pub mod FirstEdition
pub mod FirstLaw
