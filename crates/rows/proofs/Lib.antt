pub mod Columns
pub mod Says
pub mod Filling
pub mod Demand3
