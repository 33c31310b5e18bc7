pub mod Examples
pub mod Files
pub mod Folds
pub mod Inner
pub mod Symbols
pub mod Views
