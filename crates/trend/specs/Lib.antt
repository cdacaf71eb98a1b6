pub mod Trend
pub mod Series
