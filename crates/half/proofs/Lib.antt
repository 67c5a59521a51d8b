pub mod Odd
pub mod Laws
