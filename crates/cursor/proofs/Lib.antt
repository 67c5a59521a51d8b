pub mod Laws
pub mod Step
pub mod Whole
