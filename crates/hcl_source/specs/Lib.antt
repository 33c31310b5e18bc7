pub mod Devices
pub mod FaultTexts
pub mod Inner
pub mod Load
pub mod Memory
pub mod Places
pub mod Simple
