pub mod Passing
pub mod Counting
pub mod Lists
pub mod Read
pub mod Cover
pub mod Coverage
pub mod Agree
