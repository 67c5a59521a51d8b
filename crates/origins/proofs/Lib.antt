mod Laws
pub mod Agree
