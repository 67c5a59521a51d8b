pub mod Laws
pub mod Next
pub mod Tree
pub mod Each
pub mod Agree
