-- Definitions for the code's own parts, which its inner contracts use. Nobody has to believe them.
pub mod Chosen
pub mod Once
pub mod Searching
pub mod Steps
pub mod Walking
