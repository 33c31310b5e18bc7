pub mod InHeredocs
pub mod Inner
