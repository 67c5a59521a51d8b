pub mod Stops
pub mod Courses
pub mod Places
