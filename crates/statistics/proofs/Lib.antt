pub mod Totals
pub mod Formulas
pub mod Refusals
pub mod Shares
pub mod ReadOuts
