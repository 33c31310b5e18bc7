pub mod Lines
pub mod Levels
pub mod Cells
pub mod Columns
pub mod Gaps
pub mod Print
pub mod Examples
pub mod Inner
