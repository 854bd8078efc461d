pub mod GoingOn
pub mod Instruction
pub mod SameWorlds
pub mod Step
