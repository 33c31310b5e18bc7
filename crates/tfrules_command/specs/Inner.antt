-- Definitions for the code's own parts, which its inner contracts use. Nobody has to believe them.
pub mod Keeping
pub mod Named
pub mod Outcomes
pub mod Pages
pub mod Parts
pub mod Steps
