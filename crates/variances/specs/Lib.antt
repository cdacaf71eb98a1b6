pub mod Avar
pub mod Names
