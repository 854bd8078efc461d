pub mod Alike
pub mod Framing
pub mod Shapes
