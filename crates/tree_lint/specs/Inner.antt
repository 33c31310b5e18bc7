-- Definitions for the code's own parts, which its inner contracts use. Nobody has to believe them.
pub mod Gathering
pub mod Growth
pub mod Looking
pub mod NameTexts
pub mod Showing
