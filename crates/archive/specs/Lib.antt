pub mod Archive
pub mod Inner
