pub mod Bytes
pub mod Grammar
pub mod Said
pub mod Split
pub mod Read
