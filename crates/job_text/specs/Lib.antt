pub mod Jobs
pub mod Shown
