pub mod FileDiagnostics
pub mod Inner
pub mod Messages
pub mod Modules
pub mod Shown
pub mod Told
