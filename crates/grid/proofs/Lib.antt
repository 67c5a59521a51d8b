pub mod Coverage
pub mod Laws
pub mod Agree
