pub mod Probe
pub mod Nested
