pub mod Steps
pub mod Leaves
pub mod Nodes
pub mod Laws
pub mod Few
