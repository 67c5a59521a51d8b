pub mod Walk
pub mod Demand3
pub mod Inner
