pub mod Integers
pub mod Remainder
pub mod Axis
pub mod Laws
pub mod Same
