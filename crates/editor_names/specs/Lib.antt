pub mod Inner
pub mod Modules
pub mod Names
pub mod Views
