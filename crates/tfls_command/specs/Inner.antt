-- Definitions for the code's own parts, which its inner contracts use. Nobody has to believe them.
pub mod Steps
pub mod Turns
