pub mod Agreement
pub mod Examples
pub mod Inner
pub mod Names
pub mod Views
