pub mod Format
pub mod Reprinted
pub mod Older
