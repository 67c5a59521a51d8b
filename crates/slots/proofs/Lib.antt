pub mod Levels
pub mod Laws
pub mod Runs
