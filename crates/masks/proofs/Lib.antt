pub mod Laws
pub mod Digits
pub mod Words
pub mod Agree
pub mod Ones
