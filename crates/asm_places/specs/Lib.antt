pub mod Outline
pub mod Source
pub mod Standing
