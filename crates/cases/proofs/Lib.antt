pub mod Laws
pub mod Cloud
pub mod Cases
