pub mod Layers
pub mod Series
