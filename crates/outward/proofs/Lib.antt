mod Laws
pub mod Doubles
pub mod Laid
