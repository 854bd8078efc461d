pub mod Served
pub mod Told
pub mod Replay
pub mod Standing
pub mod Queued
