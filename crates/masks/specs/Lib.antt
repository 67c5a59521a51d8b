pub mod Masks
pub mod Inner
