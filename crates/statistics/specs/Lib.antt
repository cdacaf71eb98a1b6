pub mod Totals
pub mod Model
pub mod ReadOut
