-- Definitions for the code's own parts, which its inner contracts use. Nobody has to believe them.
pub mod Entries
pub mod StoredFacts
pub mod StoredViews
pub mod Locating
pub mod SilencedLines
pub mod Walked
pub mod Walks
