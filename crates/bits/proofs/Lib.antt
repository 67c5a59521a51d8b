pub mod Laws
mod Ones
