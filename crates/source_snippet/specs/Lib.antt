pub mod Snippets
pub mod Examples
