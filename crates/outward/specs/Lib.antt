pub mod Outward
pub mod Inner
