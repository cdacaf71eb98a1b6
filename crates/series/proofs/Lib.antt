pub mod Outcomes
pub mod Samples
pub mod Unpacked
