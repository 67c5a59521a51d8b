pub mod Half
pub mod Inner
