pub mod Nodes
pub mod Inner
