pub mod Laws
pub mod Pieces
mod Runs
mod Ways
pub mod Cut
