-- Definitions for the code's own parts, which its inner contracts use. Nobody has to believe them.
pub mod Blocks
pub mod Closings
pub mod Cuts
pub mod FoundViews
pub mod Idents
pub mod Labelled
pub mod Spelled
pub mod Values
