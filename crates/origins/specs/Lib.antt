pub mod Origins
pub mod Inner
