pub mod Topology
pub mod Blocks
pub mod Active
pub mod Inner
