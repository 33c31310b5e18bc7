pub mod Checks
pub mod Faults
pub mod Inner
pub mod Marks
