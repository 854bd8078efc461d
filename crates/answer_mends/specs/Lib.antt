pub mod Fix
pub mod Apply
pub mod Json
pub mod Mend
pub mod Nesting
