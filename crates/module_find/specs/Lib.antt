pub mod Examples
pub mod Faults
pub mod Inner
pub mod KeptRefusals
pub mod Modules
pub mod Refusals
