pub mod Inner
pub mod MemoryFiles
pub mod PlannedFiles
pub mod Runs
pub mod Uses
