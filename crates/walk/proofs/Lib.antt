pub mod Past
pub mod Reached
pub mod Laws
pub mod Demand3
pub mod Sanity
mod Wide
pub mod Steps
