pub mod Arguments
pub mod Faults
pub mod Flags
pub mod Rows
