pub mod Ends
pub mod Explained
pub mod Inner
pub mod Line
pub mod LinterWords
