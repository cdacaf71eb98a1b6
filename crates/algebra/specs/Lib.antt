pub mod Sums
pub mod Squares
pub mod Differences
pub mod Windows
pub mod Trends
pub mod Mirrors
pub mod Claims
