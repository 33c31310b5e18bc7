pub mod Spacing
pub mod Inner
