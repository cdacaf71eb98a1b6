pub mod Mirrors
pub mod Series
