pub mod LivePackets
pub mod Stacks
pub mod Walks
pub mod Packets
pub mod Owners
pub mod Levels
pub mod Steps
pub mod Runs
