pub mod Limits
pub mod Faults
pub mod Seen
pub mod Listed
pub mod Stored
pub mod Packed
